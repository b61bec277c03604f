-- Laws of the text of a line (Text), of the world of what prints (Telling), and of what code that prints owes (Printing).
pub mod TextLaws
pub mod TellingLaws
pub mod PrintingLaws
