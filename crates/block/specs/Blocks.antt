-- The signed block. Assumes nothing.
use Rattle.std.specs.Prelude.{ℕ, ◌+◌, cond, [], ◌∷◌, length, Some, None, Ok, Err, Option, Result}
use Rattle.std.specs.Str.{bytes_eq}
use Rattle.refusals.specs.Refusals.{Flaw, flaw}
use Rattle.items.specs.Parts.{Piece, piece_of}
use Rattle.der.specs.Reads.{Reads, got, bind, then, mapped}
use Rattle.der.specs.Items.{expect_at, name_at, all_of, next_is}
use Rattle.elements.specs.Runs.{run_of}
use Rattle.telling.specs.declared.role.Context.TheVariants.{List as InList}
use Rattle.telling.specs.Tells.{Tells, silent}
use Rattle.extension.specs.Extensions.{extension_step}
use Rattle.entry.specs.Times.{time_at}
use Rattle.entry.specs.Entries.{entry_step}
use Rattle.algorithm.specs.declared.identifiers.Algorithm.{Algorithm}
use Rattle.block.specs.declared.fields.Entries.{Entries}
use Rattle.block.specs.declared.fields.ListTold.{ListTold}
use Rattle.block.specs.declared.fields.Block.{Block}
use Rattle.algorithm.specs.Algorithms.{algorithm_at}

-- where the entries stand, and how many there are
pub record Lines : Type 0 where
  pub run : Option Piece
  pub count : ℕ

-- the list's number and expiredCertsOnCRL
pub record Numbered : Type 0 where
  pub number : Piece
  pub expired : Option ℕ

-- what the signed block says
pub record Held : Type 0 where
  pub algorithm : Algorithm
  pub issuer : Piece
  pub this_update : ℕ
  pub next_update : ℕ
  pub entries : Lines
  pub told : Numbered

abbrev pub lines_of : Entries → Lines
lines_of e = record { run = mapped piece_of e.run; count = e.count }

abbrev pub list_told_of : ListTold → Numbered
list_told_of t = record { number = piece_of t.number; expired = t.expired }

abbrev pub held_of : Block → Held
held_of b = record { algorithm = b.algorithm; issuer = piece_of b.issuer; this_update = b.this_update; next_update = b.next_update; entries = lines_of b.entries; told = list_told_of b.told }

-- INTEGER 1
unfoldable pub version_at : Reads (Unit {0})
version_at s = bind (expect_at 2 s) (λ c t. cond (bytes_eq c.octets (1 ∷ [])) (Ok (got tt t)) (Err (flaw 6 s.offset)))

-- a SEQUENCE of entries, if a SEQUENCE is next
unfoldable pub entries_at : Reads Lines
entries_at s =
    cond (next_is 48 s)
    (bind (expect_at 48 s) (λ c t. then (run_of entry_step tt c) (λ v. Ok (got (record { run = Some c; count = length v.one }) t))))
    (Ok (got (record { run = None; count = 0 }) s))

-- the number must be told: 6 at the run's end where it is not
abbrev pub numbered : ℕ → Tells → Option Piece → Result Numbered Flaw
numbered end a None = Err (flaw 6 end)
numbered end a (Some n) = Ok (record { number = n; expired = a.expired })

-- what a run of list extensions tells
abbrev pub told_in : Piece → Result Numbered Flaw
told_in c = then (run_of (extension_step InList) silent c) (λ v. numbered (c.offset + length c.octets) v.two v.two.number)

-- a SEQUENCE of list extensions
unfoldable pub told_at : Reads Numbered
told_at s = bind (expect_at 48 s) (λ c t. then (told_in c) (λ n. Ok (got n t)))

-- an item with tag A0 around them
unfoldable pub context_at : Reads Numbered
context_at s = bind (expect_at 160 s) (λ c t. then (all_of told_at c) (λ n. Ok (got n t)))

-- version, algorithm, issuer, thisUpdate, nextUpdate, entries, extensions
unfoldable pub block_at : Reads Held
block_at s =
    bind (version_at s) (λ version t.
    bind (algorithm_at t) (λ algorithm u.
    bind (name_at u) (λ issuer w.
    bind (time_at w) (λ this_update x.
    bind (time_at x) (λ next_update y.
    bind (entries_at y) (λ entries z.
    bind (context_at z) (λ told end.
    Ok (got (record { algorithm = algorithm; issuer = issuer; this_update = this_update; next_update = next_update; entries = entries; told = told }) end))))))))
