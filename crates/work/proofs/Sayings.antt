-- What is said of a list by what reading it gives. Assumes nothing.
use Rattle.std.proofs.Common.{◌+◌, length, take, ◌<◌, get_or, ◌≡◌, ℕ, cond, eqb, List, [], ◌∷◌, ◌++◌, drop, sym, refl, ap, ◌∙◌, append-nil, arith}
use Rattle.std.proofs.lemmas.List.{drop_all, take_more}
use Rattle.std.proofs.lemmas.Grind.{flat_map-append}
use Rattle.std.specs.List.{flat_map}
use Rattle.refusals.specs.declared.grounds.Input.{Input}
use Rattle.refusals.specs.declared.grounds.Input.TheVariants.{Neither, List as InList, Roll}
use Rattle.refusals.specs.Refusals.{input_number}
use Rattle.refusals.specs.Shows.{shown}

-- what is shown of a refusal, where only a list was given
pub shown_rest : (i : Input) (p : ℕ) (octets : List ℕ) → shown i p octets [] ≡ cond (eqb (input_number i) 1) (drop p octets) []
shown_rest Neither p octets = refl
shown_rest InList p octets = refl
shown_rest Roll p octets = drop_all p [] (omega arith)

-- what one element more adds to the texts before it
pub flat_map-more : {X : Type 0} (f : X → List ℕ) (xs : List X) (i : ℕ) (x : X) → i < length xs → x ≡ get_or xs i x → flat_map f (take (i + 1) xs) ≡ flat_map f (take i xs) ++ f x
flat_map-more f xs i x h e =
    let m : take (i + 1) xs ≡ take i xs ++ (x ∷ []) = take_more xs i x h ∙ ap (λ y. take i xs ++ (y ∷ [])) (sym e) in
    ap (flat_map f) m ∙ flat_map-append f (take i xs) (x ∷ []) ∙ ap (λ z. flat_map f (take i xs) ++ z) (append-nil (f x))
