-- What stands where after a part was written over a list.
use mathlib.Core.Path.{◌≡◌, refl, ap, ◌∙◌, sym}
use mathlib.Core.List.{List, ◌++◌, append_assoc}
use Prim.Native.Nat.{ℕ, ◌+◌, ◌-◌, ◌<◌, ◌≤◌}
use native.Mathlib.Nat.{zero-add}
use native.Mathlib.Omega.{arith}
use borrow.Rule.Slice.PartMut.{put_mid}
use lib.ListN.{length, get_or, take, drop, length-append, length-take, length-drop, get_or-append}
use lib.Seq.{take_at, drop_at, drop-drop, drop-append-add, get_or-append-add, get_or-take, length-take-le}
use Rattle.lists.specs.Written.{written_at}

module _ {A : Type 0} (place : ℕ) (part s : List A) where
  -- What a lent part left behind is the list with that part written over it.
  pub put_written : (k : ℕ) → length part ≡ k → put_mid place k s part ≡ written_at place part s
  unfolding written_at
  put_written k e = rw (← e, drop-drop (length part) place s)

  module _ (room : place + length part ≤ length s) where
    front_length : length (take place s) ≡ place
    front_length = length-take-le place s (omega arith)

    pub length_written : length (written_at place part s) ≡ length s
    unfolding written_at
    length_written = simp (length-append, length-take, length-drop) (omega arith)

    pub take_written : take place (written_at place part s) ≡ take place s
    unfolding written_at
    take_written = take_at (take place s) (part ++ drop (place + length part) s) place front_length

    pub front_written : take (place + length part) (written_at place part s) ≡ take place s ++ part
    unfolding written_at
    front_written =
        rw (← append_assoc (take place s) part (drop (place + length part) s))
        (take_at (take place s ++ part) (drop (place + length part) s) (place + length part)
        (omega (arith, length-append (take place s) part, front_length)))

    pub from_written : drop place (written_at place part s) ≡ part ++ drop (place + length part) s
    unfolding written_at
    from_written = drop_at (take place s) (part ++ drop (place + length part) s) place front_length

    pub part_written : take (length part) (drop place (written_at place part s)) ≡ part
    part_written =
        rw from_written
        (take_at part (drop (place + length part) s) (length part) refl)

    pub drop_written : (k : ℕ) → place + length part ≤ k → drop k (written_at place part s) ≡ drop k s
    unfolding written_at
    drop_written k h =
        let whole = take place s ++ part in
        let l : length whole ≡ place + length part = length-append (take place s) part ∙ ap (λ n. n + length part) front_length in
        let e : k ≡ length whole + (k - (place + length part)) = omega arith in
        let f : place + length part + (k - (place + length part)) ≡ k = omega arith in
        rw (← append_assoc (take place s) part (drop (place + length part) s))
        (ap (λ n. drop n (whole ++ drop (place + length part) s)) e
        ∙ drop-append-add whole (drop (place + length part) s) (k - (place + length part))
        ∙ drop-drop (k - (place + length part)) (place + length part) s
        ∙ ap (λ n. drop n s) f)

    pub getD_before : (i : ℕ) (d : A) → i < place → get_or (written_at place part s) i d ≡ get_or s i d
    unfolding written_at
    getD_before i d h =
        get_or-append (take place s) _ d i (rw front_length h) ∙ get_or-take place s i d h

    pub getD_within : (i : ℕ) (d : A) → i < length part → get_or (written_at place part s) (place + i) d ≡ get_or part i d
    unfolding written_at
    getD_within i d h =
        ap (λ n. get_or (take place s ++ (part ++ drop (place + length part) s)) (n + i) d) (sym front_length)
        ∙ get_or-append-add (take place s) (part ++ drop (place + length part) s) i d
        ∙ get_or-append part _ d i h

-- What is written over the front hides what stood there.
pub written_front : {A : Type 0} (part s t : List A) → drop (length part) s ≡ drop (length part) t → written_at 0 part s ≡ written_at 0 part t
unfolding written_at
written_front part s t e = rw (zero-add (length part), e)
