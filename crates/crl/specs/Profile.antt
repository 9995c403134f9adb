-- What octets are a revocation list in the profile, in the words of its ASN.1 structure. Assumes nothing.
-- Each shape relates an offset, the octets that stand there, and the value that they are the encoding of.
use Rattle.std.specs.Prelude.{◌≡◌, ℕ, ◌+◌, ◌<◌, ◌≤◌, Bool, true, false, ◌&&◌, ◌⊎◌, List, [], ◌∷◌, ◌++◌, length, Some, None, Option}
use Rattle.items.specs.Parts.{Piece}
use Rattle.moment.specs.Texts.{utc_text, general_text}
use Rattle.telling.specs.declared.role.Context.{Context}
use Rattle.telling.specs.declared.role.Context.TheVariants.{List as InList, Entry as InEntry}
use Rattle.telling.specs.declared.role.Role.{Role}
use Rattle.telling.specs.declared.role.Role.TheVariants.{Number, Expired, Reason, Other}
use Rattle.telling.specs.Reasons.{admitted}
use Rattle.telling.specs.Roles.{role_of}
use Rattle.telling.specs.Tells.{Tells, silent}
use Rattle.extension.specs.Values.{number_is}
use Rattle.extension.specs.Extensions.{Extn, unread}
use Rattle.entry.specs.Entries.{Line, serial_is}
use Rattle.algorithm.specs.declared.identifiers.Algorithm.{Algorithm}
use Rattle.algorithm.specs.Algorithms.{algorithm_octets}
use Rattle.block.specs.Blocks.{Lines, Numbered, Held}
use Rattle.list.specs.Lists.{BlockAs, Signed, Listing}
use Rattle.grammar.specs.Items.{Tagged}
use Rattle.grammar.specs.Grammar.{Seq, Made, Where, InTag, InWhole, Maybe, Elements, SequenceOf}

-- Time: UTCTime through 2049, GeneralizedTime from 2050 on
abbrev pub IsTime : ℕ → List ℕ → ℕ → Type 0
IsTime p w m =
    InTag 23 (λ c v. (v < 3155760000) × (utc_text v ≡ Some c.octets)) p w m
    ⊎ InTag 24 (λ c v. (3155760000 ≤ v) × (v ≤ 254033452799) × (general_text v ≡ Some c.octets)) p w m

-- critical BOOLEAN DEFAULT FALSE: TRUE is FF
abbrev pub IsFlag : ℕ → List ℕ → Bool → Type 0
IsFlag = Maybe false (InTag 1 (λ c v. (c.octets ≡ 255 ∷ []) × (v ≡ true)))

-- what the OCTET STRING of an extension holds, by its role: an INTEGER from 0 with at most 20 octets, a GeneralizedTime,
-- an ENUMERATED reason, or anything
abbrev pub IsValue : Role → Piece → Tells → Type 0
IsValue Number c t = InTag 2 (λ n t. (number_is n.octets ≡ true) × (t ≡ record { number = Some n; expired = None; reason = None })) c.offset c.octets t
IsValue Expired c t = InTag 24 (λ e t. (m : ℕ) × (m ≤ 254033452799) × (general_text m ≡ Some e.octets) × (t ≡ record { number = None; expired = Some m; reason = None })) c.offset c.octets t
IsValue Reason c t = InTag 10 (λ e t. (n : ℕ) × (e.octets ≡ n ∷ []) × (admitted n ≡ true) × (t ≡ record { number = None; expired = None; reason = Some n })) c.offset c.octets t
IsValue Other c t = t ≡ silent

-- Extension: identifier, critical, value; one that is not read is not critical
abbrev pub IsExtensionBody : Context → ℕ → List ℕ → Extn → Type 0
IsExtensionBody context =
    Seq (Tagged 6) (λ identifier. Seq IsFlag (λ critical.
    Where ((critical && unread (role_of context identifier.octets)) ≡ false)
    (InTag 4 (λ content e. (t : Tells) × IsValue (role_of context identifier.octets) content t × (e ≡ record { identifier = identifier; critical = critical; content = content; tells = t })))))

abbrev pub IsExtension : Context → ℕ → List ℕ → Extn → Type 0
IsExtension context = InTag 48 (λ c e. IsExtensionBody context c.offset c.octets e)

-- an optional value as a list of none or one
abbrev pub listed : {V : Type 0} → Option V → List V
listed None = []
listed (Some v) = v ∷ []

-- all that some extensions tell, in order
abbrev pub all_told : {V : Type 0} → (Tells → Option V) → List Extn → List V
all_told f [] = []
all_told f (e ∷ es) = listed (f e.tells) ++ all_told f es

-- what extensions tell together: of each kind that is read, none or one
pub record Together (es : List Extn) (t : Tells) : Type 0 where
  pub number : all_told (λ x. x.number) es ≡ listed t.number
  pub expired : all_told (λ x. x.expired) es ≡ listed t.expired
  pub reason : all_told (λ x. x.reason) es ≡ listed t.reason

-- Extensions in this context: one or more, which tell this together
abbrev pub AreExtensions : Context → Piece → Tells → Type 0
AreExtensions context c t = (es : List Extn) × Elements (IsExtension context) c.offset c.octets es × Together es t

-- userCertificate: an INTEGER above zero with at most 20 octets
abbrev pub IsSerial : ℕ → List ℕ → Piece → Type 0
IsSerial = InTag 2 (λ c v. (serial_is c.octets ≡ true) × (v ≡ c))

-- crlEntryExtensions, of which the reason is kept
abbrev pub IsReasons : ℕ → List ℕ → Option ℕ → Type 0
IsReasons = Maybe None (InTag 48 (λ c r. (t : Tells) × AreExtensions InEntry c t × (r ≡ t.reason)))

-- SEQUENCE { userCertificate, revocationDate, crlEntryExtensions OPTIONAL }
abbrev pub IsEntryBody : ℕ → List ℕ → Line → Type 0
IsEntryBody = Seq IsSerial (λ serial. Seq IsTime (λ date. Made IsReasons (λ reason. record { serial = serial; date = date; reason = reason })))

abbrev pub IsEntry : ℕ → List ℕ → Line → Type 0
IsEntry = InTag 48 (λ c e. IsEntryBody c.offset c.octets e)

-- revokedCertificates SEQUENCE OF entries OPTIONAL: none, or one and more
abbrev pub IsEntries : ℕ → List ℕ → Lines → Type 0
IsEntries = Maybe (record { run = None; count = 0 }) (SequenceOf IsEntry (λ c es. record { run = Some c; count = length es }))

-- version: v2, which is 1
abbrev pub IsVersion : ℕ → List ℕ → Unit {0} → Type 0
IsVersion = InTag 2 (λ c v. (c.octets ≡ 1 ∷ []) × (v ≡ tt))

-- AlgorithmIdentifier: one of three, whole
abbrev pub IsAlgorithm : ℕ → List ℕ → Algorithm → Type 0
IsAlgorithm p w a = w ≡ algorithm_octets a

-- Name: a SEQUENCE with content, as it stands
abbrev pub IsName : ℕ → List ℕ → Piece → Type 0
IsName = InWhole 48 (λ whole c v. (1 ≤ length c.octets) × (v ≡ whole))

-- crlExtensions [0] EXPLICIT: the number is told, expiredCertsOnCRL may be
abbrev pub AreNumbered : Piece → Numbered → Type 0
AreNumbered c n = (t : Tells) × AreExtensions InList c t × (t.number ≡ Some n.number) × (n.expired ≡ t.expired)

abbrev pub IsContext : ℕ → List ℕ → Numbered → Type 0
IsContext = InTag 160 (λ c n. InTag 48 AreNumbered c.offset c.octets n)

-- TBSCertList: SEQUENCE { version, signature, issuer, thisUpdate, nextUpdate, revokedCertificates OPTIONAL, crlExtensions }
abbrev pub IsBlock : ℕ → List ℕ → Held → Type 0
IsBlock =
    Seq IsVersion (λ version. Seq IsAlgorithm (λ algorithm. Seq IsName (λ issuer. Seq IsTime (λ this_update. Seq IsTime (λ next_update. Seq IsEntries (λ entries.
    Made IsContext (λ told. record { algorithm = algorithm; issuer = issuer; this_update = this_update; next_update = next_update; entries = entries; told = told })))))))

abbrev pub IsSigned : ℕ → List ℕ → BlockAs → Type 0
IsSigned = InWhole 48 (λ whole c v. (h : Held) × IsBlock c.offset c.octets h × (v ≡ record { item = whole; held = h }))

-- signatureValue: a BIT STRING without unused bits, of one octet or more
abbrev pub IsSignature : ℕ → List ℕ → Signed → Type 0
IsSignature = InWhole 3 (λ whole c v. (xs : List ℕ) × (c.octets ≡ 0 ∷ xs) × (1 ≤ length xs) × (v ≡ record { item = whole; octets = record { octets = xs; offset = c.offset + 1 } }))

-- CertificateList: SEQUENCE { tbsCertList, signatureAlgorithm, signatureValue }, the algorithm that of the block
abbrev pub IsListBody : ℕ → List ℕ → Listing → Type 0
IsListBody =
    Seq IsSigned (λ signed. Seq (λ p w (u : Unit {0}). IsAlgorithm p w signed.held.algorithm) (λ again.
    Made IsSignature (λ signature. record { signed = signed; signature = signature })))

-- these octets, from the first to the last, are the list
abbrev pub IsList : List ℕ → Listing → Type 0
IsList xs v = InTag 48 (λ c v. IsListBody c.offset c.octets v) 0 xs v
