-- What the contracts cite beside the cursor's definitions in format.
pub mod Steps
