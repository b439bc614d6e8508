-- The chains of the rows passed: down the chain of a term's mark one finds the row that is like it, and one row more is put on one chain.
use mathlib.Core.Path.{◌≡◌, refl, ap, ◌∙◌, sym}
use mathlib.Core.Bool.{Bool, true, false}
use mathlib.Core.List.{List, [], ◌∷◌, ◌++◌}
use mathlib.Core.Logic.{⊎_elim}
use Prim.Native.Nat.{ℕ, suc, ◌+◌, ◌-◌, ◌*◌, ◌<◌, ◌≤◌}
use native.Mathlib.Nat.{mod-lt}
use native.Mathlib.Omega.{arith}
use borrow.Author.Count.{below_more}
use lib.ListN.{length, get_or, take, drop, set, replicate, length-append, length-set, length-replicate, get_or-replicate, drop_of_length-le, get_or-append, get_or-map}
use lib.Seq.{take-length, take-suc, take-append-le, get_or-append_seam, get_or-set_same, get_or-set_other}
use Rattle.lists.specs.Members.{some_of, alike}
use Rattle.lists.proofs.Alike.{alike_same, alike_lengths}
use Rattle.lists.proofs.Steps.{drop_step}
use Rattle.lists.proofs.Tests.{not_so, same_or_not}
use Rattle.terms.specs.Rows.{rows_of, term, terms_of}
use Rattle.terms.proofs.RowSteps.{rows_at, length_terms, terms_more}
use Rattle.reduction.specs.code.Marks.{next_mark, mark_after, mark_of, Leads, Chained, put_first, first_like}
use Rattle.reduction.proofs.FirstLike.{first_like_none, first_like_at}

-- Along a term: the mark so far and the numbers ahead give the mark.
pub mark_start : (size : ℕ) (term : List ℕ) → mark_of size term ≡ mark_after size 0 (drop 0 term)
unfolding mark_of
mark_start size term = refl

module _ (size mark : ℕ) (s : List ℕ) (at : ℕ) where
  pub mark_step : at < length s
      → mark_after size mark (drop at s) ≡ mark_after size (next_mark size mark (get_or s at 0)) (drop (at + 1) s)
  unfolding mark_after
  mark_step h = rw (drop_step s at 0 h)

  pub mark_end : length s ≤ at → mark_after size mark (drop at s) ≡ mark
  unfolding mark_after
  mark_end h = rw (drop_of_length-le s h)

module _ (size : ℕ) (some : 0 < size) where
  mark_after_below : (mark : ℕ) → mark < size → (l : List ℕ) → mark_after size mark l < size
  unfolding mark_after next_mark
  mark_after_below mark h [] = h
  mark_after_below mark h (number ∷ l) = mark_after_below (next_mark size mark number) (mod-lt _ some) l

  pub mark_below : (term : List ℕ) → mark_of size term < size
  unfolding mark_of
  mark_below term = mark_after_below 0 some term

-- One element more at the end.
module _ {A : Type 0} (test : A → Bool) (a : A) where
  some_misses : (l : List A) → test a ≡ false → some_of test (l ++ (a ∷ [])) ≡ some_of test l
  unfolding some_of
  some_misses [] e = rw e
  some_misses (b ∷ l) e = rw (some_misses l e)

-- The term at a place among the first rows.
pub terms_at : (w count place : ℕ) (s : List ℕ) → place < count → get_or (terms_of w count s) place [] ≡ term (take w (drop (w * place) s))
unfolding terms_of term
terms_at w count place s h = get_or-map term (rows_of w count s) place [] ∙ ap term (rows_at w count place s h)

-- Down a chain: the places from some bound on are passed, and the number leads to those before it.
pub record Seeking (size : ℕ) (terms : List (List ℕ)) (term : List ℕ) (at : ℕ) : Type 0 where
  pub bound : ℕ
  pub inside : bound ≤ length terms
  pub leads : Leads size terms bound (mark_of size term) at
  pub left : some_of (alike term) terms ≡ some_of (alike term) (take bound terms)

module _ (size most : ℕ) (terms : List (List ℕ)) (chains : List ℕ) (chained : Chained size most terms chains)
    (term : List ℕ) (some : 0 < length term) where
  pub seeking_starts : 0 < size → Seeking size terms term (get_or chains (mark_of size term) 0)
  seeking_starts h =
      record {
        bound = length terms;
        inside = omega arith;
        leads = chained.last (mark_of size term) (mark_below size h term);
        left = ap (some_of (alike term)) (sym (take-length terms));
      }

  module _ (at : ℕ) (s : Seeking size terms term at) where
    pub seeking_ends : at ≡ 0 → length terms ≡ first_like term terms
    unfolding some_of
    seeking_ends e = sym (first_like_none term terms (s.left ∙ s.leads.all term some refl ∙ rw e refl))

    module _ (more : 0 < at) where
      pub place_inside : at - 1 < length terms
      place_inside = omega (arith, s.inside, s.leads.inside)

      -- The places before the number, the last of them apart.
      last_apart : take at terms ≡ take (at - 1) terms ++ (get_or terms (at - 1) [] ∷ [])
      last_apart =
          let e : at ≡ suc (at - 1) = omega arith in
          ap (λ n. take n terms) e ∙ take-suc terms (at - 1) [] place_inside

      left_here : some_of (alike term) terms ≡ some_of (alike term) (take (at - 1) terms ++ (get_or terms (at - 1) [] ∷ []))
      left_here = s.left ∙ s.leads.all term some refl ∙ ap (some_of (alike term)) last_apart

      -- No term before the one found is like it, since none is like the one found.
      pub seeking_found : alike term (get_or terms (at - 1) []) ≡ true → at - 1 ≡ first_like term terms
      seeking_found e =
          let alone = chained.alone (at - 1) place_inside (s.leads.there more) in
          sym
          (first_like_at term terms (at - 1) place_inside e
          (ap (λ t. some_of (alike t) (take (at - 1) terms)) (alike_same term (get_or terms (at - 1) []) e) ∙ alone))

      pub seeking_on : alike term (get_or terms (at - 1) []) ≡ false → Seeking size terms term (get_or chains (size + (at - 1)) 0)
      seeking_on e =
          record {
            bound = at - 1;
            inside = omega (arith, place_inside);
            leads = rw (s.leads.marked more) at (chained.link (at - 1) place_inside (s.leads.there more));
            left = left_here ∙ some_misses (alike term) (get_or terms (at - 1) []) (take (at - 1) terms) e;
          }

      -- The next number is below.
      pub chain_falls : get_or chains (size + (at - 1)) 0 < at
      chain_falls = omega (arith, (chained.link (at - 1) place_inside (s.leads.there more)).inside)

-- No term is chained yet.
pub chained_starts : (size most : ℕ) (chains : List ℕ) → chains ≡ replicate (size + most) 0 → Chained size most [] chains
unfolding some_of
chained_starts size most chains e =
    record {
      room = rw e (length-replicate (size + most) 0);
      fits = omega arith;
      last = λ mark h.
          (let none : get_or chains mark 0 ≡ 0 = rw e (get_or-replicate (size + most) mark 0 0 (omega arith)) in
          record { inside = omega arith; there = λ more. absurd (omega arith); marked = λ more. absurd (omega arith); all = λ term some same. rw none refl });
      link = λ place h. absurd (omega arith);
      alone = λ place h. absurd (omega arith);
    }

-- One term more.
abbrev longer : List (List ℕ) → List ℕ → List (List ℕ)
longer terms term = terms ++ (term ∷ [])

length_longer : (terms : List (List ℕ)) (term : List ℕ) → length (longer terms term) ≡ length terms + 1
length_longer terms term = length-append terms (term ∷ [])

module _ (size : ℕ) (terms : List (List ℕ)) (term : List ℕ) where
  -- What leads to places before it leads to them still.
  leads_still : (count mark last : ℕ) → count ≤ length terms → Leads size terms count mark last → Leads size (longer terms term) count mark last
  leads_still count mark last h l =
      let same : 0 < last → get_or (longer terms term) (last - 1) [] ≡ get_or terms (last - 1) [] =
      λ more. get_or-append terms (term ∷ []) [] (last - 1) (omega (arith, l.inside)) in
      record {
        inside = l.inside;
        there = λ more. rw (same more) (l.there more);
        marked = λ more. rw (same more) (l.marked more);
        all = λ other some e.
            rw (take-append-le count terms (term ∷ []) h, take-append-le last terms (term ∷ []) (omega (arith, l.inside))) (l.all other some e);
      }

  -- It is passed over where no term with the mark is like it.
  leads_past : (mark last : ℕ) → ((other : List ℕ) → 0 < length other → mark_of size other ≡ mark → alike other term ≡ false)
      → Leads size terms (length terms) mark last → Leads size (longer terms term) (length (longer terms term)) mark last
  leads_past mark last never l =
      let still = leads_still (length terms) mark last (omega arith) l in
      record {
        inside = rw (length_longer terms term) (omega (arith, l.inside));
        there = still.there;
        marked = still.marked;
        all = λ other some e.
            ap (some_of (alike other)) (take-length (longer terms term))
            ∙ some_misses (alike other) term terms (never other some e)
            ∙ ap (some_of (alike other)) (sym (take-append-le (length terms) terms (term ∷ []) (omega arith) ∙ take-length terms))
            ∙ still.all other some e;
      }

-- Chains of one term more: those before it keep their numbers, and its own leads to what its mark led to.
module _ (size most : ℕ) (terms : List (List ℕ)) (chains : List ℕ) (chained : Chained size most terms chains) (room : length terms < most)
    (term : List ℕ) where
  fits_on : length (longer terms term) ≤ most
  fits_on = rw (length_longer terms term) (omega arith)

  links_on : (after : List ℕ) → ((place : ℕ) → place < length terms → get_or after (size + place) 0 ≡ get_or chains (size + place) 0)
      → (0 < length term → Leads size terms (length terms) (mark_of size term) (get_or after (size + length terms) 0))
      → (place : ℕ) → place < length (longer terms term) → 0 < length (get_or (longer terms term) place [])
      → Leads size (longer terms term) place (mark_of size (get_or (longer terms term) place [])) (get_or after (size + place) 0)
  links_on after same new place h =
      below_more
      (λ p. 0 < length (get_or (longer terms term) p []) → Leads size (longer terms term) p (mark_of size (get_or (longer terms term) p [])) (get_or after (size + p) 0))
      (length terms)
      (λ p k. rw (get_or-append terms (term ∷ []) [] p k, same p k) (λ some. leads_still size terms term p _ _ (omega arith) (chained.link p k some)))
      (rw (get_or-append_seam terms term [] []) (λ some. leads_still size terms term (length terms) _ _ (omega arith) (new some)))
      place (rw (length_longer terms term) at h)

  -- None of the terms stands there twice where the new one is new.
  alone_on : (0 < length term → some_of (alike term) terms ≡ false) → (place : ℕ) → place < length (longer terms term)
      → 0 < length (get_or (longer terms term) place [])
      → some_of (alike (get_or (longer terms term) place [])) (take place (longer terms term)) ≡ false
  alone_on new place h =
      below_more
      (λ p. 0 < length (get_or (longer terms term) p []) → some_of (alike (get_or (longer terms term) p [])) (take p (longer terms term)) ≡ false)
      (length terms)
      (λ p k. rw (get_or-append terms (term ∷ []) [] p k, take-append-le p terms (term ∷ []) (omega arith)) (chained.alone p k))
      (rw (get_or-append_seam terms term [] [], take-append-le (length terms) terms (term ∷ []) (omega arith), take-length terms) new)
      place (rw (length_longer terms term) at h)

  -- An empty term is put on no chain.
  pub chained_gone : term ≡ [] → Chained size most (longer terms term) chains
  chained_gone e =
      record {
        room = chained.room;
        fits = fits_on;
        last = λ mark h.
            leads_past size terms term mark (get_or chains mark 0)
            (λ other some same. alike_lengths other term (λ long. omega (arith, ap length e))) (chained.last mark h);
        link = links_on chains (λ place h. refl) (λ some. absurd (omega (arith, ap length e)));
        alone = alone_on (λ some. absurd (omega (arith, ap length e)));
      }

  module _ (some : 0 < length term) (marks : 0 < size) where
    mark : ℕ
    mark = mark_of size term

    abbrev linked : List ℕ
    linked = set chains (size + length terms) (get_or chains mark 0)

    after : List ℕ
    after = put_first size mark (length terms) chains

    mark_inside : mark < length chains
    unfolding mark
    mark_inside = rw chained.room (omega (arith, mark_below size marks term))

    -- Its mark leads to it, its place to what the mark led to, and nothing else is changed.
    first_there : get_or after mark 0 ≡ length terms + 1
    unfolding after put_first
    first_there =
        get_or-set_same linked mark (length terms + 1) 0
        (rw (length-set chains (size + length terms) (get_or chains mark 0)) mark_inside)

    link_there : get_or after (size + length terms) 0 ≡ get_or chains mark 0
    unfolding after put_first mark
    link_there =
        get_or-set_other linked mark (size + length terms) (length terms + 1) 0 (λ e. omega (arith, mark_below size marks term))
        ∙ get_or-set_same chains (size + length terms) (get_or chains mark 0) 0 (rw chained.room (omega arith))

    others_there : (at : ℕ) → (at ≡ mark → ⊥) → (at ≡ size + length terms → ⊥) → get_or after at 0 ≡ get_or chains at 0
    unfolding after put_first
    others_there at h k =
        get_or-set_other linked mark at (length terms + 1) 0 h ∙ get_or-set_other chains (size + length terms) at (get_or chains mark 0) 0 k

    own_leads : Leads size (longer terms term) (length (longer terms term)) mark (get_or after mark 0)
    unfolding mark
    own_leads =
        rw (first_there, length_longer terms term)
        (record {
          inside = omega arith;
          there = λ more. rw own some;
          marked = λ more. ap (mark_of size) own;
          all = λ other h e. refl;
        })
      where
        own : get_or (longer terms term) (length terms + 1 - 1) [] ≡ term
        own =
            let e : length terms + 1 - 1 ≡ length terms = omega arith in
            rw e (get_or-append_seam terms term [] [])

    pub chained_more : some_of (alike term) terms ≡ false → Chained size most (longer terms term) (put_first size (mark_of size term) (length terms) chains)
    unfolding after mark put_first
    chained_more new =
        record {
          room = length-set linked mark (length terms + 1) ∙ length-set chains (size + length terms) (get_or chains mark 0) ∙ chained.room;
          fits = fits_on;
          last = λ other h.
              ⊎_elim
              (λ same. rw same own_leads)
              (λ apart.
              rw (others_there other apart (λ e. omega arith))
              (leads_past size terms term other (get_or chains other 0)
              (λ sought k e. not_so (alike sought term) (λ like. apart (sym e ∙ ap (mark_of size) (alike_same sought term like))))
              (chained.last other h)))
              (same_or_not other mark);
          link =
              links_on after
              (λ place h. others_there (size + place) (λ e. omega (arith, mark_below size marks term)) (λ e. omega arith))
              (λ h. rw link_there (chained.last mark (mark_below size marks term)));
          alone = alone_on (λ h. new);
        }

-- The same of rows: the term is that of the next row.
module _ (size most w place : ℕ) (rows chains : List ℕ) (chained : Chained size most (terms_of w place rows) chains) (room : place < most) where
  pub row_chained : 0 < size → 0 < length (term (take w (drop (w * place) rows)))
      → some_of (alike (term (take w (drop (w * place) rows)))) (terms_of w place rows) ≡ false
      → Chained size most (terms_of w (place + 1) rows) (put_first size (mark_of size (term (take w (drop (w * place) rows)))) place chains)
  row_chained marks some new =
      rw (terms_more w place rows)
      (rw (length_terms w place rows) at
      (chained_more size most (terms_of w place rows) chains chained (rw (length_terms w place rows) room) (term (take w (drop (w * place) rows))) some marks new))

  pub row_gone : (after : List ℕ) → terms_of w (place + 1) after ≡ terms_of w place rows ++ ([] ∷ []) → Chained size most (terms_of w (place + 1) after) chains
  row_gone after e = rw e (chained_gone size most (terms_of w place rows) chains chained (rw (length_terms w place rows) room) [] refl)
