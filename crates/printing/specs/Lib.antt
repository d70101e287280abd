pub mod InnerTexts
