use Rattle.std.proofs.Common.{◌≡◌, take, fold}
use Rattle.compression.specs.Block.{compress}
use Rattle.digest.proofs.hash.absorb_blocks.Given as goal

abbrev pub invariant-loop-block : goal.invariant-loop-block
invariant-loop-block l = l.h ≡ fold compress l.fn.h (take l.block-index l.blocks)
