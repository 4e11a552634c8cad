pub mod RightsCalls
