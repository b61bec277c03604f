-- Soundness of lent numbers and a table, and what every call asks of them.
pub mod Store
pub mod Asked
