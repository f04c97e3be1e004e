pub mod Record
pub mod Lengths
pub mod RoundTrip
