-- The lengths of what is written. Assumes nothing.
use Rattle.std.proofs.Common.{◌≡◌, ℕ, ◌+◌, ◌<◌, ◌≤◌, Bool, true, false, cond, ltb, leb, List, ◌++◌, length, Some, None, sym, refl, ap, ◌∙◌, arith, length-append}
use Rattle.std.proofs.lemmas.Bool.{cond-false, cond_both, lt-leb}
use Rattle.std.specs.Bool.{then_some}
use Rattle.writable.specs.Sizes.{sized}
use Rattle.encode.specs.Der.{der, length_octets}
use Rattle.encode.proofs.Ders.{length-der}
use Rattle.writable.specs.declared.extensions.Bare.{Bare}
use Rattle.writable.specs.Extensions.{flag_octets, bare_content, extension_content, extension_octets}

-- a header takes two to four octets
pub head-within : (n : ℕ) → (1 ≤ length (length_octets n)) × (length (length_octets n) ≤ 3)
head-within n = cond_both (ltb n 128) _ _ (λ xs. (1 ≤ length xs) × (length xs ≤ 3)) (λ e. (omega arith, omega arith)) (λ e. cond_both (ltb n 256) _ _ (λ xs. (1 ≤ length xs) × (length xs ≤ 3)) (λ e. (omega arith, omega arith)) (λ e. (omega arith, omega arith)))

-- the length of an item, and how much more it is than its content
pub der-within : (tag : ℕ) (xs : List ℕ) → (length xs + 2 ≤ length (der tag xs)) × (length (der tag xs) ≤ length xs + 4)
der-within tag xs = let l = length-der tag xs in let h = head-within (length xs) in (omega arith, omega arith)

pub flag-within : (b : Bool) → length (flag_octets b) ≤ 3
flag-within true = omega arith
flag-within false = omega arith

pub length-content : (xs : List ℕ) (b : Bool) (ys : List ℕ) → length (extension_content xs b ys) ≡ length (der 6 xs) + (length (flag_octets b) + length (der 4 ys))
unfolding extension_content
length-content xs b ys = length-append (der 6 xs) (flag_octets b ++ der 4 ys) ∙ ap (λ n. length (der 6 xs) + n) (length-append (flag_octets b) (der 4 ys))

pub length-extension : (xs : List ℕ) (b : Bool) (ys : List ℕ) → length (extension_octets xs b ys) ≡ length (der 48 (extension_content xs b ys))
unfolding extension_octets
length-extension xs b ys = refl

-- the lengths of an extension and of its parts
pub record Lengths (xs : List ℕ) (b : Bool) (ys : List ℕ) : Type 0 where
  pub whole : length (extension_octets xs b ys) ≡ 1 + length (length_octets (length (extension_content xs b ys))) + length (extension_content xs b ys)
  pub inner : length (extension_content xs b ys) ≡ length (der 6 xs) + (length (flag_octets b) + length (der 4 ys))
  pub low6 : length xs + 2 ≤ length (der 6 xs)
  pub high6 : length (der 6 xs) ≤ length xs + 4
  pub low4 : length ys + 2 ≤ length (der 4 ys)
  pub high4 : length (der 4 ys) ≤ length ys + 4
  pub flag : length (flag_octets b) ≤ 3

pub lengths : (xs : List ℕ) (b : Bool) (ys : List ℕ) → Lengths xs b ys
lengths xs b ys = record {
  whole = length-extension xs b ys ∙ length-der 48 (extension_content xs b ys);
  inner = length-content xs b ys;
  low6 = (der-within 6 xs).0;
  high6 = (der-within 6 xs).1;
  low4 = (der-within 4 ys).0;
  high4 = (der-within 4 ys).1;
  flag = flag-within b;
}

-- the same, and those of the header that is written for a content of n octets
pub bare-lengths : (b : Bare) (n : ℕ) → n ≡ length (bare_content b) → Lengths b.identifier.now b.critical b.content.now × (length (length_octets n) ≡ length (length_octets (length (bare_content b))))
bare-lengths b n e = (lengths b.identifier.now b.critical b.content.now, ap (λ k. length (length_octets k)) e)

pub sized-not : (n : ℕ) → 65535 < n → None ≡ sized n
sized-not n h = sym (cond-false (leb n 65535) (Some n) None (lt-leb n 65535 h))

then-some : (b : Bool) (m : ℕ) → then_some b m ≡ cond b (Some m) None
then-some true m = refl
then-some false m = refl

pub sized-then : (m n : ℕ) → m ≡ n → then_some (leb m 65535) m ≡ sized n
sized-then m n e = then-some (leb m 65535) m ∙ ap sized e
