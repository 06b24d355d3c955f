-- What the walkers' contracts say.
pub mod Walk
