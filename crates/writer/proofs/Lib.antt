pub mod RoundTrip
pub mod WriteLaws
