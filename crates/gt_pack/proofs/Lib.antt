pub mod FindLaws
pub mod ItemLaws
pub mod IndexLaws
pub mod WholeLaws
pub mod StandLaws
pub mod RiseLaws
pub mod BuildLaws
