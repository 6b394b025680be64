pub mod TextLaws
pub mod SheetText
