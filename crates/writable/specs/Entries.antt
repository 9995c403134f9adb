-- Entries as they are written. Assumes nothing.
use Rattle.std.specs.Prelude.{◌≡◌, ℕ, ◌≤◌, true, false, List, [], ◌∷◌, ◌++◌, Some, None, Option}
use Rattle.items.specs.Headers.{shortest}
use Rattle.moment.specs.Texts.{utc_text, general_text}
use Rattle.telling.specs.Roles.{reason_identifier}
use Rattle.entry.specs.Entries.{Line, serial_is}
use Rattle.encode.specs.Der.{der}
use Rattle.writable.specs.Extensions.{extension_octets}

-- a time by its texts: the UTCTime where there is one, else the GeneralizedTime; past the last moment there is none
abbrev pub time_by : Option (List ℕ) → Option (List ℕ) → List ℕ
time_by (Some xs) o = der 23 xs
time_by None (Some ys) = der 24 ys
time_by None None = der 24 []

unfoldable pub time_octets : ℕ → List ℕ
time_octets m = time_by (utc_text m) (general_text m)

-- the extensions of an entry with a reason: the reason code alone, not critical
abbrev pub reason_octets : Option ℕ → List ℕ
reason_octets None = []
reason_octets (Some n) = der 48 (extension_octets reason_identifier false (10 ∷ 1 ∷ n ∷ []))

-- serial, date, extensions
unfoldable pub entry_content : Line → List ℕ
entry_content e = der 2 e.serial.octets ++ (time_octets e.date ++ reason_octets e.reason)

unfoldable pub entry_octets : Line → List ℕ
entry_octets e = der 48 (entry_content e)

-- the same entry, offsets aside
pub record AlikeLine (a b : Line) : Type 0 where
  pub serial : a.serial.octets ≡ b.serial.octets
  pub date : a.date ≡ b.date
  pub reason : a.reason ≡ b.reason

-- an entry may stand where its serial is one and its date is a moment
pub record MayBeListed (e : Line) : Type 0 where
  pub integer : shortest 2 e.serial.octets ≡ true
  pub serial : serial_is e.serial.octets ≡ true
  pub date : e.date ≤ 254033452799
