pub mod BitLaws
pub mod ListLaws
pub mod SizeLaws
pub mod SoundnessLaws
pub mod CheckLaws
pub mod AnswerLaws
