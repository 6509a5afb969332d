pub mod Table
pub mod BitTables
