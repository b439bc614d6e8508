-- Lists put behind one another: what a loop has so gathered, and what is mapped and joined of several.
use mathlib.Core.Path.{◌≡◌, refl, ap, ◌∙◌, sym}
use mathlib.Core.List.{List, [], ◌∷◌, ◌++◌, map, flat_map, append_assoc, append-nil, map-append}

-- What was gathered, one step more, and what is left.
pub gathered : {A : Type 0} (front one rest left all more : List A) → more ≡ front ++ one → left ≡ one ++ rest → front ++ left ≡ all
    → more ++ rest ≡ all
gathered front one rest left all more e f g = rw (e, append_assoc front one rest, ← f) g

-- With nothing left all is gathered.
pub gathered_all : {A : Type 0} (front left all : List A) → left ≡ [] → front ++ left ≡ all → front ≡ all
gathered_all front left all e f = sym (append-nil front) ∙ rw e at f

pub flatMap_joined : {A B : Type 0} (f : A → List B) (l m : List A) → flat_map f (l ++ m) ≡ flat_map f l ++ flat_map f m
unfolding flat_map
flatMap_joined f [] m = refl
flatMap_joined f (a ∷ l) m = rw (flatMap_joined f l m) (sym (append_assoc (f a) (flat_map f l) (flat_map f m)))

pub map_flatMap : {A B C : Type 0} (f : B → C) (g : A → List B) (l : List A) → map f (flat_map g l) ≡ flat_map (λ a. map f (g a)) l
unfolding flat_map
map_flatMap f g [] = refl
map_flatMap f g (a ∷ l) = map-append f (g a) (flat_map g l) ∙ ap (λ m. map f (g a) ++ m) (map_flatMap f g l)
