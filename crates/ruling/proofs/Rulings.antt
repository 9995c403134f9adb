-- The rulings of lists in their order, and the answer drawn from them.
use Rattle.std.proofs.Common.{◌≡◌, ℕ, ◌+◌, ◌<◌, ◌≤◌, true, ◌⊎◌, List, [], ◌∷◌, ◌++◌, length, sym, refl, ap, ◌∙◌, subst, inl, inr, ⊎_elim, append_assoc, arith}
use Rattle.std.proofs.lemmas.List.{append-nil, get_or_append_left, get_or_push, get_or_past, length_push}
use Rattle.std.proofs.lemmas.Bool.{cases_order, cases_lt, cond_both, eq-eqb}
use Rattle.ruling.specs.Cases.{Final, valid, revoked, Says, silent, waits, rules, Told, no_list, waiting, final, contradicted, row}
use Rattle.ruling.specs.Answers.{same, moved, heard, answered}
use Rattle.ruling.specs.Law.{First, Clash, Drawn, Further, ruling_at}

-- one more list never moves an answer back
pub moved-further : (k : ℕ) (r : Says) (s : Told) → Further s (moved k r s)
moved-further k silent s = inl refl
moved-further k waits no_list = inr (omega arith)
moved-further k waits waiting = inl refl
moved-further k waits (final v n) = inl refl
moved-further k waits (contradicted n m) = inl refl
moved-further k (rules w) no_list = inr (omega arith)
moved-further k (rules w) waiting = inr (omega arith)
moved-further k (rules w) (final v n) = cond_both (same v w) (final v n) (contradicted n k) (λ t. Further (final v n) t) (λ e. inl refl) (λ e. inr (omega arith))
moved-further k (rules w) (contradicted n m) = inl refl

pub further-trans : (s t u : Told) → Further s t → Further t u → Further s u
further-trans s t u (inl e) g = subst (λ (x : Told). Further x u) (sym e) g
further-trans s t u (inr h) (inl e) = inr (subst (λ (x : Told). row s < row x) e h)
further-trans s t u (inr h) (inr k) = inr (omega arith)

pub heard-further : (k : ℕ) (rs : List Says) (s : Told) → Further s (heard k rs s)
unfolding heard
heard-further k [] s = inl refl
heard-further k (r ∷ rs) s = further-trans s (moved k r s) (heard (k + 1) rs (moved k r s)) (moved-further k r s) (heard-further (k + 1) rs (moved k r s))

pub heard-append : (k : ℕ) (xs ys : List Says) (s : Told) → heard k (xs ++ ys) s ≡ heard (k + length xs) ys (heard k xs s)
unfolding heard
heard-append k [] ys s = ap (λ n. heard n ys s) (omega arith)
heard-append k (x ∷ xs) ys s = heard-append (k + 1) xs ys (moved k x s) ∙ ap (λ n. heard n ys (heard (k + 1) xs (moved k x s))) (omega arith)

-- an answer from more lists is the same or further along the row
pub more-further : (xs ys : List Says) → Further (answered xs) (answered (xs ++ ys))
more-further xs ys =
    subst (λ (t : Told). Further (answered xs) t) (sym (heard-append 0 xs ys no_list)) (heard-further (0 + length xs) ys (answered xs))

pub no-rule : (w : Final) → silent ≡ rules w → ⊥
no-rule w e = cc

no-wait : (w : Final) → waits ≡ rules w → ⊥
no-wait w e = cc

pub silent-wait : silent ≡ waits → ⊥
silent-wait e = cc

pub same_refl : (v : Final) → same v v ≡ true
same_refl valid = refl
same_refl (revoked d r) = eq-eqb d d refl

-- g is f with the ruling r of list n, where f ends
module _ (f g : ℕ → Says) (n : ℕ) (r : Says) (past : (i : ℕ) → n ≤ i → f i ≡ silent) (like : (i : ℕ) → i < n → g i ≡ f i) (at : g n ≡ r) (after : (i : ℕ) → n < i → g i ≡ silent) where
  within : (i : ℕ) (w : Final) → f i ≡ rules w → i < n
  within i w e = ⊎_elim (λ h. h) (λ h. absurd (no-rule w (sym (past i h) ∙ e))) (cases_lt i n)

  forth : (i : ℕ) (w : Final) → f i ≡ rules w → g i ≡ rules w
  forth i w e = like i (within i w e) ∙ e

  forth-wait : (i : ℕ) → f i ≡ waits → g i ≡ waits
  forth-wait i e = ⊎_elim (λ h. like i h ∙ e) (λ h. absurd (silent-wait (sym (past i h) ∙ e))) (cases_lt i n)

  back : (i : ℕ) (w : Final) → g i ≡ rules w → (f i ≡ rules w) ⊎ ((i ≡ n) × (r ≡ rules w))
  back i w e =
      ⊎_elim (λ h. inr (h, sym at ∙ sym (ap g h) ∙ e))
      (⊎_elim (λ h. inl (sym (like i h) ∙ e)) (λ h. absurd (no-rule w (sym (after i h) ∙ e)))) (cases_order i n)

  all-like : r ≡ silent → (i : ℕ) → f i ≡ g i
  all-like e i =
      ⊎_elim (λ h. past i (omega arith) ∙ sym (ap g h ∙ at ∙ e))
      (⊎_elim (λ h. sym (like i h)) (λ h. past i (omega arith) ∙ sym (after i h))) (cases_order i n)

  -- a final ruling of g is one of f, unless r is final
  quiet : ((w : Final) → r ≡ rules w → ⊥) → (i : ℕ) (w : Final) → g i ≡ rules w → f i ≡ rules w
  quiet no-final i w e = ⊎_elim (λ h. h) (λ h. absurd (no-final w h.1)) (back i w e)

  -- and so is one before list n
  earlier : (i : ℕ) (w : Final) → i < n → g i ≡ rules w → f i ≡ rules w
  earlier i w lt e = sym (like i lt) ∙ e

  first_on : (k : ℕ) (v : Final) → First f k v → First g k v
  first_on k v h = (forth k v h.0, λ i w lt e. h.1 i w lt (earlier i w (let b = within k v h.0 in omega arith) e))

  clash-on : (k m : ℕ) → Clash f k m → Clash g k m
  clash-on k m h =
      record {
        v = h.v;
        w = h.w;
        first = first_on k h.v h.first;
        later = h.later;
        other = forth m h.w h.other;
        differ = h.differ;
        between = λ i u lt p. h.between i u lt (earlier i u (let b = within m h.w h.other in omega arith) p);
      }

  step : (t : Says) → r ≡ t → (a : Told) → Drawn f a → Drawn g (moved n t a)
  step silent e a h =
      let F : (ℕ → Says) → Type 0 = λ u. Drawn u a in
      let p : f ≡ g = λ i k. all-like e k i in
      subst F p h
  step waits e no_list h = (λ i w k. no-rule w (sym (h i) ∙ quiet (λ w p. no-wait w (sym e ∙ p)) i w k), (n, at ∙ e))
  step waits e waiting h = (λ i w k. h.0 i w (quiet (λ w p. no-wait w (sym e ∙ p)) i w k), (h.1.0, forth-wait h.1.0 h.1.1))
  step waits e (final v k) h = (first_on k v h.0, λ i w p. h.1 i w (quiet (λ w p. no-wait w (sym e ∙ p)) i w p))
  step waits e (contradicted k m) h = clash-on k m h
  step (rules w) e no_list h = (
    (at ∙ e, λ i u lt p. no-rule u (sym (h i) ∙ earlier i u lt p)),
    λ i u p. ⊎_elim (λ q. absurd (no-rule u (sym (h i) ∙ q))) (λ q. let b = q.1 in let x = same_refl w in let y : u ≡ w = cc in cc) (back i u p),
  )
  step (rules w) e waiting h = (
    (at ∙ e, λ i u lt p. h.0 i u (earlier i u lt p)),
    λ i u p. ⊎_elim (λ q. absurd (h.0 i u q)) (λ q. let b = q.1 in let x = same_refl w in let y : u ≡ w = cc in cc) (back i u p),
  )
  step (rules w) e (final v k) h =
      cond_both (same v w) (final v k) (contradicted k n) (Drawn g)
      (λ is. (first_on k v h.0, λ i u p. ⊎_elim (λ q. h.1 i u q) (λ q. let b = q.1 in let y : u ≡ w = cc in cc) (back i u p)))
      (λ is.
      record {
        v = v;
        w = w;
        first = first_on k v h.0;
        later = within k v h.0.0;
        other = at ∙ e;
        differ = is;
        between = λ i u lt p. h.1 i u (earlier i u lt p);
      })
  step (rules w) e (contradicted k m) h = clash-on k m h

pub drawn-push : (rs : List Says) (r : Says) (s : Told) → Drawn (ruling_at rs) s → Drawn (ruling_at (rs ++ r ∷ [])) (moved (length rs) r s)
drawn-push rs r s h =
    step (ruling_at rs) (ruling_at (rs ++ r ∷ [])) (length rs) r (λ i le. get_or_past rs i silent le) (λ i lt. get_or_append_left rs (r ∷ []) silent i lt)
    (get_or_push rs r silent (length rs) refl) (λ i lt. get_or_past (rs ++ r ∷ []) i silent (let e = length_push rs r in omega arith))
    r refl s h

pub drawn-on : (before rs : List Says) (s : Told) → Drawn (ruling_at before) s → Drawn (ruling_at (before ++ rs)) (heard (length before) rs s)
unfolding heard
drawn-on before [] s h = subst (λ (xs : List Says). Drawn (ruling_at xs) s) (sym (append-nil before)) h
drawn-on before (r ∷ rs) s h =
    let k = drawn-on (before ++ r ∷ []) rs (moved (length before) r s) (drawn-push before r s h) in
    let F : List Says → Type 0 = λ xs. Drawn (ruling_at xs) (heard (length before + 1) rs (moved (length before) r s)) in
    let G : ℕ → Type 0 = λ n. Drawn (ruling_at ((before ++ r ∷ []) ++ rs)) (heard n rs (moved (length before) r s)) in
    subst F (append_assoc before (r ∷ []) rs) (subst G (length_push before r) k)

-- what is heard from the first list on is the answer drawn
pub drawn-heard : (rs : List Says) → Drawn (ruling_at rs) (answered rs)
drawn-heard rs = drawn-on [] rs no_list (λ i. refl)
