pub mod Sonde
