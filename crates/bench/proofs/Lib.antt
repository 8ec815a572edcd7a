pub mod Said
pub mod RowsRead
pub mod Gathering
pub mod Images
pub mod Loading
pub mod Asked
