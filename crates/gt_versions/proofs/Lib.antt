pub mod Keys
pub mod VersionLaws
pub mod LifeLaws
pub mod SetLaws
pub mod RunLaws
pub mod RaisedLaws
pub mod KeptLaws
