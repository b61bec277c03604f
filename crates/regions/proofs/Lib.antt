-- Laws of the table (Table), of the definitions that go along its regions (Region), of the cell of a letter and number (Cell), and of the table
-- as a run lends it (Lent).
pub mod TableLaws
pub mod RegionLaws
pub mod CellLaws
pub mod LentLaws
