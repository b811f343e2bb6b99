pub mod ShortHosts
