pub mod HeadLaws
pub mod SyncLaws
pub mod SurveyLaws
pub mod SheetLaws
pub mod LinearizeLaws
