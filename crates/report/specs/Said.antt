-- The texts of what is said.
use Rattle.std.specs.Prelude.{ℕ, zero, suc, cond, List, [], ◌∷◌, ◌++◌, length, take, Some, None, codes, decimal, Option, ◌==◌}
use Rattle.refusals.specs.Refusals.{Refused as Refusing, refused_of}
use Rattle.items.specs.Parts.{Piece}
use Rattle.entry.specs.declared.entries.Entry.{Entry}
use Rattle.entry.specs.Entries.{Line, line_of}
use Rattle.crl.specs.Law.{entry_in, first_in, rest_in}
use Rattle.algorithm.specs.Algorithms.{algorithm_code}
use Rattle.algorithm.specs.declared.identifiers.Algorithm.{Algorithm}
use Rattle.block.specs.Blocks.{Held}
use Rattle.list.specs.Lists.{Listing, listing_of}
use Rattle.report.specs.Values.{hexed, moment_text, moment_or_dash}
use Rattle.report.specs.declared.said.Said.{Said}
use Rattle.report.specs.declared.said.Said.TheVariants.{Inspected, Refused}

-- The word for the input that a refusal stands in, by its number.
abbrev pub input_word : ℕ → List ℕ
input_word i = cond (i == 1) (codes "list") (cond (i == 2) (codes "roll") (codes "-"))

-- The first eight octets of what is refused, or a dash.
abbrev pub rest_text : List ℕ → List ℕ
rest_text [] = codes "-"
rest_text (b ∷ bs) = hexed (take 8 (b ∷ bs))

-- A refusal by its numbers, with the octets that stand at its place.
abbrev pub refused_text : Refusing → List ℕ → List ℕ
refused_text r rest = codes "refused " ++ (decimal r.number ++ (32 ∷ (input_word r.input ++ (32 ∷ (decimal r.offset ++ (32 ∷ rest_text rest))))))

abbrev pub reason_text : Option ℕ → List ℕ
reason_text None = codes "-"
reason_text (Some n) = decimal n

-- One entry: a line break and two spaces come first.
abbrev pub line_text : Line → List ℕ
line_text e = (10 ∷ codes "  entry ") ++ (hexed e.serial.octets ++ (32 ∷ (moment_text e.date ++ (32 ∷ reason_text e.reason))))

abbrev pub entry_text : Entry → List ℕ
entry_text e = line_text (line_of e)

-- So many entries off the front of a run, in its order.
abbrev pub first_text : Option Line → List ℕ → List ℕ
first_text None rest = []
first_text (Some e) rest = line_text e ++ rest

unfoldable pub run_text : ℕ → Piece → List ℕ
run_text zero c = []
run_text (suc n) c = first_text (first_in (entry_in c)) (run_text n (rest_in c (entry_in c)))

abbrev pub entries_text : Option Piece → ℕ → List ℕ
entries_text None n = []
entries_text (Some c) n = run_text n c

-- A part's offset and length.
abbrev pub place_text : Piece → List ℕ
place_text p = decimal p.offset ++ (32 ∷ decimal (length p.octets))

abbrev pub algorithm_text : Algorithm → List ℕ
algorithm_text a = (10 ∷ codes "  algorithm ") ++ decimal (algorithm_code a)

-- The lines of the issuer, the two updates, the number and expiredCertsOnCRL.
abbrev pub block_text : Held → List ℕ
block_text b = (10 ∷ codes "  issuer ") ++ (place_text b.issuer ++ ((10 ∷ codes "  thisUpdate ") ++ (moment_text b.this_update ++ ((10 ∷ codes "  nextUpdate ") ++ (moment_text b.next_update ++ ((10 ∷ codes "  number ") ++ (hexed b.told.number.octets ++ ((10 ∷ codes "  expiredCertsOnCRL ") ++ moment_or_dash b.told.expired))))))))

-- The lines of the signed block, the signature and the number of entries.
abbrev pub signed_text : Listing → List ℕ
signed_text l = (10 ∷ codes "  signed block ") ++ (place_text l.signed.item ++ ((10 ∷ codes "  signature ") ++ (place_text l.signature.item ++ ((10 ∷ codes "  entries ") ++ decimal l.signed.held.entries.count))))

-- All that a list says.
unfoldable pub list_text : Listing → List ℕ
list_text l = algorithm_text l.signed.held.algorithm ++ (block_text l.signed.held ++ (signed_text l ++ entries_text l.signed.held.entries.run l.signed.held.entries.count))

-- What is said of a command.
abbrev pub said_text : Said → List ℕ
said_text (Inspected label length list) = codes "inspect " ++ (label.now ++ (codes ": " ++ (decimal length ++ (codes " octets" ++ list_text (listing_of list)))))
said_text (Refused verb label refused) = verb.now ++ (32 ∷ (label.now ++ (codes ": " ++ refused_text (refused_of refused.refusal) refused.rest.now)))
