pub mod MapPlaces
