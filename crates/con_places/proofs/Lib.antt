mod Numbers
mod Placed
