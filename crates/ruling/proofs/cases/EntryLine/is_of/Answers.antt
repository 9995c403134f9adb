use Rattle.std.proofs.Common.{◌≡◌, ℕ, min, List, length, Decides, subst, arith}
use Rattle.std.proofs.lemmas.Slice.Eq.{slice_eq-Decides, bytes_eq-Decides}
use Rattle.std.proofs.lemmas.Bool.Decides.{same_from_decides, Decides-eqb}
use Rattle.ruling.proofs.Scans.{take-size}
use Rattle.ruling.proofs.cases.EntryLine.is_of.Goals as goal

pub returns : goal.returns
returns c =
    let l = c.args.self.now in
    let long : length l.serial ≡ 20 = omega arith in
    let size : c.min-size.result ≡ min l.size 20 = omega arith in
    let t = take-size c.min-size.result l.size l.serial long size in
    let d = slice_eq-Decides Decides-eqb _ _ _ c.eq.ensures in
    let F : List ℕ → Type 0 = λ xs. Decides c.eq.result (xs ≡ c.args.serial.now) in
    same_from_decides _ _ (subst F t d) (bytes_eq-Decides _ _)
