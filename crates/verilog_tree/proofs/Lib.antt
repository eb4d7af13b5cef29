mod Said
mod Faults
