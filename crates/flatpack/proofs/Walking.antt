-- The walk while a loop makes it: the rows of the nodes passed are written, and what the others still give completes the walk.
use mathlib.Core.Path.{◌≡◌, refl, ap, ◌∙◌, sym}
use mathlib.Core.Bool.{Bool, true, false}
use mathlib.Core.List.{List, [], ◌∷◌, ◌++◌, flat_map, append-nil, append_assoc}
use Prim.Native.Nat.{ℕ, zero, suc, ◌+◌, ◌-◌, ◌*◌, ◌<◌, ◌≤◌}
use native.Mathlib.Nat.{sub-zero}
use native.Mathlib.Numerals.{add-one}
use native.Mathlib.Omega.{arith}
use borrow.Author.Tests.{lt-ltb, ltb-true, ltb-false}
use lib.Dec.{ltb}
use lib.ListN.{length, get_or, take, drop, length-append, drop_of_length-le}
use lib.Seq.{take-suc, take-append-le, drop-append-le, length-take-le}
use Rattle.lists.specs.Members.{every, keep}
use Rattle.lists.specs.Written.{written_at}
use Rattle.lists.proofs.Joined.{flatMap_joined}
use Rattle.lists.proofs.Steps.{drop_step}
use Rattle.lists.proofs.Every.{every_at, every_append, keeps_passing}
use Rattle.lists.proofs.Behind.{written_behind_front}
use Rattle.entities.specs.declared.Triple.{Triple}
use Rattle.history.specs.Lawful.{LawfulHistory}
use Rattle.history.specs.Flatpack.{children, walk, rows_for, flatpack}
use Rattle.history.proofs.Walk.{labels_of, walk_length}
use Rattle.history.proofs.FlatpackRows.{length_rows}

-- The labels so far, of which the first `head` are passed and the others wait; and the rows as they are then.
pub record Walking (modes : ℕ) (history : List Triple) (before rows labels : List ℕ) (head : ℕ) : Type 0 where
  pub inside : head ≤ modes
  pub reached : head ≤ length labels
  pub nodes : every (λ label. ltb label modes) labels ≡ true
  pub gives : take head labels ++ walk modes history (modes - head) (drop head labels) ≡ labels_of modes history
  pub written : rows ≡ written_at 0 (rows_for modes history (take head labels)) before

module _ (modes : ℕ) (history : List Triple) where
  walk_none : (count : ℕ) → walk modes history count [] ≡ []
  unfolding walk
  walk_none zero = refl
  walk_none (suc count) = refl

  pub walking_starts : (before : List ℕ) → 1 ≤ modes → Walking modes history before before ((modes - 1) ∷ []) 0
  unfolding every rows_for flat_map written_at
  walking_starts before some_modes =
      record {
        inside = omega arith;
        reached = omega arith;
        nodes = rw (lt-ltb (modes - 1) modes (omega arith));
        gives = rw (sub-zero modes);
        written = refl;
      }

  module _ (before rows labels : List ℕ) (head : ℕ) (w : Walking modes history before rows labels head) where
    passed_rows : length (rows_for modes history (take head labels)) ≡ 4 * head
    passed_rows = length_rows modes history (take head labels) ∙ ap (λ n. 4 * n) (length-take-le head labels w.reached)

    pub walking_ends : modes ≤ head → rows ≡ written_at 0 (flatpack modes history) before
    unfolding walk flatpack
    walking_ends h =
        let end : modes - head ≡ 0 = omega arith in
        let all : take head labels ≡ labels_of modes history =
        sym (append-nil (take head labels)) ∙ rw end at w.gives in
        w.written ∙ ap (λ l. written_at 0 (rows_for modes history l) before) all

    module _ (h : head < modes) (lawful : LawfulHistory modes history) (all : length history ≡ modes) (small : 3 * modes ≤ 65535) where
      -- A node waits, for the walk has them all.
      pub waiting : head < length labels
      waiting = go (ltb head (length labels)) refl
        where
          go : (b : Bool) → ltb head (length labels) ≡ b → head < length labels
          go true e = ltb-true head (length labels) e
          go false e =
              let none = drop_of_length-le labels (ltb-false head (length labels) e) in
              let ended = rw (none, walk_none (modes - head), append-nil (take head labels)) at w.gives in
              let count = ap length ended ∙ walk_length modes history lawful all (omega arith) small in
              absurd (omega (arith, length-take-le head labels w.reached))

      pub next_node : get_or labels head 0 < modes
      next_node =
          ltb-true (get_or labels head 0) modes (every_at (λ label. ltb label modes) labels head 0 waiting w.nodes)

      module _ (label : ℕ) (codes after queued : List ℕ) (this : get_or labels head 0 ≡ label) (coded : codes ≡ children modes history label)
          (put : after ≡ written_at (4 * head) (label ∷ codes) rows) (queues : queued ≡ labels ++ keep (λ child. ltb child modes) codes) where
        abbrev kept : List ℕ
        kept = keep (λ child. ltb child modes) codes

        passed_on : take (head + 1) queued ≡ take head labels ++ (label ∷ [])
        passed_on =
            rw (queues, add-one head, take-append-le (suc head) labels kept waiting, take-suc labels head 0 waiting, this)

        waiting_on : drop (head + 1) queued ≡ drop (head + 1) labels ++ kept
        waiting_on = rw queues (drop-append-le (head + 1) labels kept (omega (arith, waiting)))

        walk_on : walk modes history (modes - head) (drop head labels) ≡ label ∷ walk modes history (modes - (head + 1)) (drop (head + 1) queued)
        unfolding walk
        walk_on =
            let left : modes - head ≡ suc (modes - (head + 1)) = omega arith in
            rw (waiting_on, coded, left, drop_step labels head 0 waiting, this)

        gives_on : take (head + 1) queued ++ walk modes history (modes - (head + 1)) (drop (head + 1) queued) ≡ labels_of modes history
        gives_on =
            rw passed_on
            (append_assoc (take head labels) (label ∷ []) (walk modes history (modes - (head + 1)) (drop (head + 1) queued))
            ∙ rw walk_on at w.gives)

        written_on : after ≡ written_at 0 (rows_for modes history (take (head + 1) queued)) before
        unfolding rows_for flat_map children
        written_on =
            let passed = rows_for modes history (take head labels) in
            put
            ∙ rw (w.written, ← passed_rows, coded, passed_on, flatMap_joined (λ node. node ∷ children modes history node) (take head labels) (label ∷ []))
            (written_behind_front passed (label ∷ children modes history label) before)

        pub walking_on : Walking modes history before after queued (head + 1)
        walking_on =
            record {
              inside = omega arith;
              reached = rw (queues, length-append labels kept) (omega (arith, waiting));
              nodes =
                  rw queues
                  (every_append (λ label. ltb label modes) labels kept w.nodes (keeps_passing (λ label. ltb label modes) codes));
              gives = gives_on;
              written = written_on;
            }
