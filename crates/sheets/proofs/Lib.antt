-- Places and their scan, the codes of types, the rows of the sheet, and the turn that writes or copies a row.
pub mod Scan
pub mod Codes
pub mod Sheet
pub mod Turn
