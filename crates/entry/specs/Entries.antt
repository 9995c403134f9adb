-- Entries. Assumes nothing.
use Rattle.std.specs.Prelude.{ℕ, Bool, cond, not, ◌&&◌, List, [], ◌∷◌, length, None, Ok, Err, Option, Result, ◌==◌, nat_le}
use Rattle.std.specs.Str.{bytes_eq}
use Rattle.refusals.specs.Refusals.{Flaw, flaw}
use Rattle.der.specs.Reads.{Left, Got, Both, Reads, got, bind, then, mapped}
use Rattle.items.specs.Parts.{Piece, piece_of}
use Rattle.der.specs.Items.{expect_at, all_of}
use Rattle.elements.specs.Names.{plainly}
use Rattle.elements.specs.Runs.{run_of}
use Rattle.telling.specs.declared.role.Context.TheVariants.{Entry as InEntry}
use Rattle.telling.specs.Reasons.{reason_number}
use Rattle.telling.specs.Tells.{silent}
use Rattle.extension.specs.Values.{from_zero}
use Rattle.extension.specs.Extensions.{extension_step}
use Rattle.entry.specs.declared.entries.Entry.{Entry}
use Rattle.entry.specs.Times.{time_at}

-- what an entry says: the serial's content, the date, the reason's number if there is one
pub record Line : Type 0 where
  pub serial : Piece
  pub date : ℕ
  pub reason : Option ℕ

abbrev pub line_of : Entry → Line
line_of e = record { serial = piece_of e.serial; date = e.date; reason = mapped reason_number e.reason }

-- the content of a serial, once it is that of an INTEGER: above zero, at most 20 octets
abbrev pub serial_is : List ℕ → Bool
serial_is xs = nat_le (length xs) 20 && (from_zero xs && not (bytes_eq xs (0 ∷ [])))

-- a serial
unfoldable pub serial_at : Reads Piece
serial_at s = bind (expect_at 2 s) (λ c t. cond (serial_is c.octets) (Ok (got c t)) (Err (flaw 6 s.offset)))

-- the extensions of an entry, if anything is left: what they tell of the reason
unfoldable pub reasons_at : Reads (Option ℕ)
reasons_at s =
    cond (length s.rest == 0) (Ok (got None s))
    (bind (expect_at 48 s) (λ c t. then (run_of (extension_step InEntry) silent c) (λ v. Ok (got v.two.reason t))))

-- serial, date, extensions
unfoldable pub entry_body_at : Reads Line
entry_body_at s =
    bind (serial_at s) (λ serial t.
    bind (time_at t) (λ date u.
    bind (reasons_at u) (λ reason w.
    Ok (got (record { serial = serial; date = date; reason = reason }) w))))

-- an entry
unfoldable pub entry_at : Reads Line
entry_at s = bind (expect_at 48 s) (λ c t. then (all_of entry_body_at c) (λ e. Ok (got e t)))

-- an entry in its run
abbrev pub entry_step : Unit {0} → Left → Result (Got (Both Line (Unit {0}))) Flaw
entry_step = plainly entry_at
