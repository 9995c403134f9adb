use Rattle.std.proofs.Common.{◌<◌, length, sym, ◌∙◌, arith}
use Rattle.entry.specs.Entries.{line_of}
use Rattle.writable.specs.Entries.{entry_content, entry_octets}
use Rattle.writable.proofs.Lengths.{sized-not, sized-then}
use Rattle.writable.proofs.Entered.{entry-lengths, entry_length}
use Rattle.writable.proofs.entries.EntryWritablePlain.size.Goals as goal

pub returns-then-self-gt-MOST_OCTETS : goal.returns-then-self-gt-MOST_OCTETS
returns-then-self-gt-MOST_OCTETS c =
    let l = entry-lengths (line_of c.args.self.now) in
    let k : 65535 < length (entry_octets (line_of c.args.self.now)) = omega arith in
    sized-not _ k

pub returns : goal.returns
returns c =
    let e = line_of c.args.self.now in
    let s = c.item_size-size.ensures.whole 48 (entry_content e) c.content_size.ensures.whole in
    c.then_some.ensures ∙ sized-then _ _ (s ∙ sym (entry_length e))
