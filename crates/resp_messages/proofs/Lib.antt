pub mod ShortNumbers
