-- Single outcome of the functions of the IFFT block.
pub mod Single
