pub mod StandardOut
