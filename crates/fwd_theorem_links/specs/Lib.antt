pub mod RenamedLinks
pub mod DialedLinks
