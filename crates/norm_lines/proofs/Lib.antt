mod Heads
mod Printed
