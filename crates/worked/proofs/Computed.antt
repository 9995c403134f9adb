-- The worked cases, by computing.
use Rattle.std.proofs.Common.{◌≡◌, ℕ, List, [], ◌∷◌, refl, ap, ◌∙◌}
use Rattle.calendar.specs.Dates.{days_to, month_start}
use Rattle.calendar.specs.Moments.{moment_of}
use Rattle.moment.specs.Forms.{fits}
use Rattle.moment.specs.Texts.{utc_read}
use Rattle.ruling.specs.Rule.{earliest_in}
use Rattle.ruling.specs.Answers.{heard}
use Rattle.ruling.specs.Cases.{Told}
use Rattle.worked.specs.Cases.{listing, answered_at, AllWorked}
use Rattle.worked.specs.declared.Listing.{Listing}

pub all-worked : AllWorked
unfolding earliest_in heard utc_read fits moment_of days_to month_start
all-worked = (
  refl,
  (
    refl,
    (
      refl,
      (
        refl,
        (
          refl,
          (
            refl,
            (
              refl,
              (
                refl,
                (
                  refl,
                  (
                    refl,
                    (refl, (refl, (refl, tt))),
                  ),
                ),
              ),
            ),
          ),
        ),
      ),
    ),
  ),
)

pub cons_same : {X : Type 0} {x y : X} {xs ys : List X} → x ≡ y → xs ≡ ys → (x ∷ xs) ≡ (y ∷ ys)
cons_same e h = cc

-- the answer over a list that is known
pub alone_is : (t : ℕ) {l m : Listing} {a : Told} → l ≡ m
    → a ≡ answered_at t (listing l.update l.expired l.date ∷ []) → a ≡ answered_at t (listing m.update m.expired m.date ∷ [])
alone_is t e h = h ∙ ap (λ (l : Listing). answered_at t (listing l.update l.expired l.date ∷ [])) e
