mod Found
mod Names
mod Scopes
