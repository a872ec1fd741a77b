pub mod Dumps
