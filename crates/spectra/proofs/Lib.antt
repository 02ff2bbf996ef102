pub mod Reading
mod Printed
