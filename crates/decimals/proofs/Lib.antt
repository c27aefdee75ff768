pub mod NumberLaws
pub mod FractionLaws
