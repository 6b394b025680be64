pub mod ScanLaws
pub mod SheetLaws
pub mod TableLaws
pub mod Exact
