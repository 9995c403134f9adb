-- One write after another. Assumes nothing.
use Rattle.std.proofs.Common.{◌≡◌, ℕ, zero, suc, ◌+◌, ◌≤◌, List, [], ◌∷◌, ◌++◌, length, take, drop, sym, refl, ap, ◌∙◌, subst, arith, length-append}
use Rattle.std.proofs.lemmas.List.{append_assoc, append-nil, drop-drop, drop_at, take_at, take_all, drop_all, take-append-drop, length-take-le}
use Rattle.encode.specs.Over.{over, Put}
use Rattle.encode.specs.Der.{der, length_octets}

over-cons : (n : ℕ) (xs : List ℕ) (x : ℕ) (s : List ℕ) → over (suc n) xs (x ∷ s) ≡ x ∷ over n xs s
unfolding over
over-cons n xs x s = ap (λ k. x ∷ (take n s ++ (xs ++ drop k (x ∷ s)))) (let e : suc n + length xs ≡ suc (n + length xs) = omega arith in e)

over-nil : (n : ℕ) (xs : List ℕ) → over n xs [] ≡ xs
unfolding over
over-nil n xs =
    let d : drop {A = ℕ} (n + length xs) [] ≡ [] = drop_all (n + length xs) [] (omega arith) in
    let t : take {A = ℕ} n [] ≡ [] = take_all n [] (omega arith) in
    ap (λ ys. ys ++ (xs ++ drop (n + length xs) [])) t ∙ ap (λ ys. xs ++ ys) d ∙ append-nil xs

over-end : (n : ℕ) (xs ys : List ℕ) → length xs ≤ n → over n ys xs ≡ xs ++ ys
unfolding over
over-end n xs ys h =
    ap (λ zs. zs ++ (ys ++ drop (n + length ys) xs)) (take_all n xs h) ∙ ap (λ zs. xs ++ (ys ++ zs)) (drop_all (n + length ys) xs (omega arith)) ∙ ap (λ zs. xs ++ zs) (append-nil ys)

over-front : (xs ys s : List ℕ) → over (0 + length xs) ys (over 0 xs s) ≡ over 0 (xs ++ ys) s
unfolding over
over-front xs ys s =
    let n = 0 + length xs in
    let e : length xs ≡ 0 + length xs = omega arith in
    let f : 0 + length xs + length ys ≡ 0 + length (xs ++ ys) = omega (arith, length-append xs ys) in
    ap (λ zs. zs ++ (ys ++ drop (n + length ys) (xs ++ drop n s))) (take_at xs (drop n s) n e)
    ∙ ap (λ zs. xs ++ (ys ++ zs)) (sym (drop-drop (length ys) n (xs ++ drop n s)) ∙ ap (drop (length ys)) (drop_at xs (drop n s) n e) ∙ drop-drop (length ys) n s ∙ ap (λ k. drop k s) f)
    ∙ sym (append_assoc xs ys (drop (0 + length (xs ++ ys)) s))

-- no side condition: past the end of the memory both append
pub over-over : (at : ℕ) (xs ys s : List ℕ) → over (at + length xs) ys (over at xs s) ≡ over at (xs ++ ys) s
over-over zero xs ys s = over-front xs ys s
over-over (suc n) xs ys [] =
    ap (over (suc n + length xs) ys) (over-nil (suc n) xs) ∙ over-end (suc n + length xs) xs ys (omega arith) ∙ sym (over-nil (suc n) (xs ++ ys))
over-over (suc n) xs ys (x ∷ s) =
    ap (over (suc n + length xs) ys) (over-cons n xs x s) ∙ ap (λ k. over k ys (x ∷ over n xs s)) (let e : suc n + length xs ≡ suc (n + length xs) = omega arith in e)
    ∙ over-cons (n + length xs) ys x (over n xs s) ∙ ap (λ zs. x ∷ zs) (over-over n xs ys s) ∙ sym (over-cons n (xs ++ ys) x s)

-- first xs, then ys after it
pub then : {at n m : ℕ} {xs ys s t u : List ℕ} → Put at xs s t n → Put n ys t u m → Put at (xs ++ ys) s u m
then {at} {n} {m} {xs} {ys} {s} {t} {u} p q =
    record {
      memory = q.memory ∙ ap (λ k. over k ys t) p.end_is ∙ ap (over (at + length xs) ys) p.memory ∙ over-over at xs ys s;
      end_is = omega (arith, p.end_is, q.end_is, length-append xs ys);
    }

pub none : (at : ℕ) (s : List ℕ) → Put at [] s s at
unfolding over
none at s = record { memory = sym (ap (λ k. take at s ++ drop k s) (let e : at + 0 ≡ at = omega arith in e) ∙ take-append-drop at s); end_is = omega arith }

-- the whole of it
pub at_front : {xs s t : List ℕ} {n : ℕ} → Put 0 xs s t n → (t ≡ xs ++ drop n s) × (n ≡ length xs)
unfolding over
at_front {xs} {s} {t} {n} p =
    let e : n ≡ length xs = omega (arith, p.end_is) in
    (p.memory ∙ ap (λ k. xs ++ drop k s) (sym p.end_is), e)

pub moved : {at n : ℕ} {xs ys s t : List ℕ} → xs ≡ ys → Put at xs s t n → Put at ys s t n
moved {at} {n} {xs} {ys} {s} {t} e p = subst (λ zs. Put at zs s t n) e p

-- tag and length, then the content
pub item : {at k n m tag : ℕ} {xs s t u : List ℕ} → k ≡ length xs → Put at (tag ∷ length_octets k) s t n → Put n xs t u m → Put at (der tag xs) s u m
unfolding der
item {at} {k} {n} {m} {tag} {xs} {s} {t} {u} e p q = then (moved (ap (λ j. tag ∷ length_octets j) e) p) q

-- what was written stands there: for a part of the output that is read again
pub put-part : {at n : ℕ} {xs s t : List ℕ} → at ≤ length s → Put at xs s t n → take (length xs) (drop at t) ≡ xs
unfolding over
put-part {at} {n} {xs} {s} {t} w p =
    ap (λ v. take (length xs) (drop at v)) p.memory ∙ ap (take (length xs)) (drop_at (take at s) (xs ++ drop (at + length xs) s) at (length-take-le at s w)) ∙ take_at xs (drop (at + length xs) s) (length xs) refl
