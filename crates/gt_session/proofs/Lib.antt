pub mod ApplyLaws
pub mod CourseLaws
pub mod Mapping
pub mod NumberLaws
pub mod PassLaws
pub mod TableLaws
pub mod TogetherLaws
