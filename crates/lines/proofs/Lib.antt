mod Forms
mod Front
mod Lists
mod Numbers
pub mod Pages
pub mod Texts
