mod Fits
mod Heights
mod NoFault
mod TermsFit
mod TreesFit
mod TypesFit
