use Rattle.std.proofs.Common.{◌<◌, length, sym, ◌∙◌, max, arith}
use Rattle.writable.specs.Extensions.{bare_content, bare_octets}
use Rattle.writable.proofs.Lengths.{lengths, length-extension, sized-not, sized-then}
use Rattle.writable.proofs.extensions.Bare.size.Goals as goal

pub returns-then-longest-gt-MOST_OCTETS : goal.returns-then-longest-gt-MOST_OCTETS
returns-then-longest-gt-MOST_OCTETS c =
    let b = c.args.self.now in
    let l = lengths b.identifier.now b.critical b.content.now in
    let m = c.max-longest.ensures in
    let k : 65535 < length (bare_octets b) = grind (arith, max) in
    sized-not _ k

pub returns : goal.returns
returns c =
    let b = c.args.self.now in
    let s = c.item_size-size.ensures.whole 48 (bare_content b) c.content_size.ensures.whole in
    c.then_some.ensures ∙ sized-then _ _ (s ∙ sym (length-extension b.identifier.now b.critical b.content.now))
