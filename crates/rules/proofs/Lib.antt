mod Answered
mod Cored
mod Looked
mod Order
mod Tried
mod WhereJoined
mod Wholes
