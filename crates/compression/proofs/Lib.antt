-- What the compression function's proofs share.
mod WordLaws
mod BlockLaws
mod LaneLaws
mod WindowLaws
