pub mod Peaks
pub mod Pushed
pub mod Raised
pub mod RaisedPrograms
pub mod RaisedTerms
pub mod RaisedTypes
pub mod Stand
pub mod Turned
