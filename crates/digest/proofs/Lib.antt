-- What the proofs of this crate share.
mod PadLaws
mod HashLaws
mod HmacLaws
mod HasherLaws
mod SameLaws
