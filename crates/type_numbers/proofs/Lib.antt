mod Equal
mod Forms
mod Functions
mod Lists
mod Nodes
