pub mod Items
pub mod Keys
pub mod NewIds
pub mod OneAnswer
pub mod Runs
pub mod SeenTexts
pub mod Texts
