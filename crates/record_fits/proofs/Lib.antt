mod Devices
mod ParcelDevices
mod Fits
