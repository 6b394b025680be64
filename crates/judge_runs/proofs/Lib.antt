pub mod RunCodeLaws
